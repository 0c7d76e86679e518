-- Proofs about the table, in three rooms, and that each of the code's tests has one answer.
pub mod Laws
pub mod Theorems
pub mod Cases
pub mod Once
