-- What the promises of `show` cite.
pub mod Faults
pub mod Rows
pub mod Lines
pub mod Drawable
