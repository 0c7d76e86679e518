-- Worked cases, computed from the definitions, and a run of calls.
pub mod Samples
pub mod Worked
pub mod WorkedChanges
pub mod WorkedEmptied
pub mod WorkedReported
pub mod WorkedTotals
pub mod WorkedTwo
pub mod WorkedSame
pub mod WorkedMakings
pub mod WorkedCarrying
pub mod WorkedBest
pub mod WorkedWithin
pub mod WorkedLedger
pub mod WorkedKinds
pub mod Run
