-- What the promises on any container cite.
pub mod Reading
