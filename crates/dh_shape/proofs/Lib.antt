pub mod Spots
pub mod Counts
pub mod Loops
pub mod CopiesWalked
