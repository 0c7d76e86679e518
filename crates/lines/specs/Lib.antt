-- What the promises of the line reader cite.
pub mod Line
