pub mod Summed
pub mod Sizes
pub mod NumberedPaths
pub mod Marks
pub mod Led
