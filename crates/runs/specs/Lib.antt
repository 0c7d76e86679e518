-- What promises cite of the width of an entry, and of a sum by halves.
pub mod Width
pub mod Halves
