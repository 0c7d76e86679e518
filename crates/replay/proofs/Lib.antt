-- The law behind the promises of `replay`.
pub mod Taken
