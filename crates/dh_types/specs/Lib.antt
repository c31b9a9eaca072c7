pub mod Facts
pub mod Leaves
pub mod Bare
pub mod InTrees
pub mod Judging
pub mod Walks
pub mod Programs
