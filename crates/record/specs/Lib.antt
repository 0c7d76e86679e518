-- What the promises on records cite.
pub mod Grammar
pub mod Scan
pub mod Undone
pub mod Written
pub mod Where
pub mod Places
pub mod Steps
pub mod Recorded
pub mod Unquoted
pub mod Numbers
