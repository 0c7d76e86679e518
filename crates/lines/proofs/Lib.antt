-- The laws on lines that the crates above cite.
pub mod Found
pub mod Parts
pub mod Once
