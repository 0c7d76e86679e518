-- The laws on words and numbers that are written.
pub mod Writing
pub mod Decimals
pub mod Once
