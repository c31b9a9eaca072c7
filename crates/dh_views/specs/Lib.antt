pub mod Kept
pub mod Walked
pub mod Through
pub mod Wanting
