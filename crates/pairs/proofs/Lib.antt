-- What the proofs of the calls on two containers cite, that each call is an event of demand 3, that it has one answer.
pub mod Told
pub mod Ours
pub mod Once
pub mod Upstream
pub mod UpstreamRings
pub mod UpstreamVectors
pub mod Home
pub mod Sums
pub mod Sameness
