-- What the promises of the calls on two containers cite.
pub mod Seen
