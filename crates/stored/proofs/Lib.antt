-- The laws on stored texts.
pub mod Lines
pub mod Writes
pub mod Numbers
pub mod Pieces
pub mod Exactly
pub mod Given
pub mod Trip
pub mod There
pub mod Judging
pub mod Taking
pub mod Ours
pub mod Once
pub mod OursRead
pub mod OnceRead
pub mod Worked
pub mod WorkedRead
