pub mod Residues
pub mod Masks
pub mod Values
pub mod WordLaws
