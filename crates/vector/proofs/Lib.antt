-- The laws that the proofs of the vector's functions cite, what ties its calls to demand 3, that each promise leaves one result, upstream's clauses,
-- and the slot that is reported.
pub mod Told
pub mod Ours
pub mod Once
pub mod Upstream
pub mod UpstreamParts
pub mod Lamp
pub mod Sum
