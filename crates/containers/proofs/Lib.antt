-- What the proofs of calls on any container cite, and that each method has one result.
pub mod Homes
pub mod Once
