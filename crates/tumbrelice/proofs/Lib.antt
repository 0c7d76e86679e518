-- The laws of this crate.
pub mod Numbers
pub mod Words
pub mod Staying
pub mod Twos
pub mod Compared
pub mod Lent
pub mod Texts
pub mod Steps
pub mod Once
pub mod OnceTwo
pub mod OnceLooked
pub mod Ours
pub mod OursTwo
pub mod OursLooked
pub mod Best
pub mod Allowance
