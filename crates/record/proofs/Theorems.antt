-- What is shown of records: that the scan is the grammar, that a text has one reading, what the refusals mean and where they are, that a name stays whole.
pub mod Sound
pub mod Complete
pub mod Refused
pub mod Where
pub mod Decided
pub mod Numbers
pub mod RoundTrip
pub mod Rewritten
pub mod Whole
pub mod Bytes
pub mod Back
pub mod Small
