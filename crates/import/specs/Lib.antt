-- What the promises of `import` cite.
pub mod Lines
pub mod Spots
pub mod Settled
pub mod Window
pub mod Sheets
