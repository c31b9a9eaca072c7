pub mod Rests
pub mod CountedProducts
pub mod KeptChains
pub mod JudgedBlocks
pub mod LeastStands
pub mod BlockGrows
pub mod DoneBlocks
