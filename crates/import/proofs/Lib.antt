-- The laws behind what `import` promises.
pub mod Writing
pub mod Spots
pub mod Fields
pub mod Fitting
pub mod Whatever
