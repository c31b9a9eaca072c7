pub mod KeptIndices
pub mod Lookups
pub mod Turns
