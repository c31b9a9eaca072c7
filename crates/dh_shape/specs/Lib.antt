pub mod Classified
pub mod Above
pub mod Placed
