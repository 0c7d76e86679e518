-- The laws that the proofs of cursors cite, that each call is an event of demand 3, that it has one answer, upstream's clauses, and that
-- no slot is reported.
pub mod Told
pub mod Ours
pub mod Once
pub mod Upstream
pub mod Lamp
