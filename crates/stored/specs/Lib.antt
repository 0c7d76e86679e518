-- What the promises on stored texts cite.
pub mod Form
pub mod Written
pub mod Numbers
pub mod Seen
pub mod Storing
pub mod Acceptable
pub mod Reading
pub mod Judge
pub mod Reads
pub mod First
