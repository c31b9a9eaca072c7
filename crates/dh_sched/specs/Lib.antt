pub mod Sorts
pub mod FullClocks
pub mod LeastBlocks
