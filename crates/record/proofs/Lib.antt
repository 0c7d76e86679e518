-- The proofs on records, in three rooms; that each call has one answer; and that reading one is an event of demand 3.
pub mod Laws
pub mod Theorems
pub mod Cases
pub mod Once
pub mod Ours
