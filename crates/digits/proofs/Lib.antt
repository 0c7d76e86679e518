-- The laws on hexadecimal text that the crates above cite.
pub mod Puts
pub mod Digits
pub mod Says
pub mod Fields
pub mod Rows
pub mod Once
