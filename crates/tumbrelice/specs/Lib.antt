-- What the promises of the exported calls cite.
pub mod Heard
pub mod HeardText
pub mod HeardPart
