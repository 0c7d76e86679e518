-- The laws behind what `show` promises.
pub mod Finding
pub mod Exact
pub mod Drawn
pub mod Saying
pub mod Holding
