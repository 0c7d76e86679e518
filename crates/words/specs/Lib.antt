-- What the promises on words and numbers cite.
pub mod Words
pub mod Wrote
