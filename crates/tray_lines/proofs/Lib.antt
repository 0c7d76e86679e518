-- The laws behind the program's promises, and what they come to.
pub mod Says
pub mod Known
pub mod Doing
pub mod Answered
pub mod Fed
pub mod Blocks
pub mod Balance
pub mod Ran
pub mod Once
pub mod Worked
