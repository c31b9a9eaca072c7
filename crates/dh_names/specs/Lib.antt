pub mod Entries
pub mod Visible
pub mod InTrees
pub mod Walks
pub mod NotBuilt
pub mod Programs
