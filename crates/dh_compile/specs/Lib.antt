pub mod Compiled
pub mod JoinedSwept
