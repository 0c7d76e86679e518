-- What the proofs cite: of runs of bytes, fields and places, as the code finds them, and of the scan.
pub mod Tests
pub mod Wrong
pub mod Opens
pub mod Local
pub mod Quick
pub mod Runs
pub mod Spans
pub mod Passing
pub mod Laying
pub mod Placing
pub mod Inside
pub mod Order
pub mod Summing
pub mod Saying
pub mod Undoing
pub mod Telling
pub mod Kept
