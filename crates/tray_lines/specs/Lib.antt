-- What the promises of the program's meaning cite.
pub mod Lines
pub mod Acts
pub mod Kept
pub mod Seen
pub mod Answers
pub mod Feeds
pub mod Runs
