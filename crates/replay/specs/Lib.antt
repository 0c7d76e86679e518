-- What the promises of `replay` cite.
pub mod Lines
