-- What the promises of the containers cite, in the order in which to read it.
pub mod Tray
pub mod Calls
pub mod Table
pub mod Numbers
pub mod Does
pub mod Reported
pub mod Answers
pub mod Totals
pub mod Within
pub mod Parts
pub mod Lent
pub mod Tested
pub mod Ledger
pub mod Promise
pub mod PromiseWithin
pub mod World
