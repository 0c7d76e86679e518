-- That each promise leaves one result, and that a total is told by its sum.
pub mod Once
pub mod Whole
