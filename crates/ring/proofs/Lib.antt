-- The laws that the proofs of the ring's functions cite, what ties its calls to demand 3, that each has one answer, upstream's clauses, an empty
-- ring's head, the best head, a limit on moves, the slot that is reported, and the total.
pub mod Told
pub mod Ours
pub mod Once
pub mod Upstream
pub mod Home
pub mod Best
pub mod Allowance
pub mod Lamp
pub mod Sum
