-- The laws behind where `tray` promises to stand, and demand 3 of its runs.
pub mod Reading
pub mod Demand3
