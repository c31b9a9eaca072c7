pub mod SameTrees
pub mod MetParts
