-- What the promises on hexadecimal text cite.
pub mod Hex
pub mod Put
pub mod Low
pub mod Rows
