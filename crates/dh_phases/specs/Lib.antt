pub mod Counted
pub mod GatheredPhases
pub mod Gathering
pub mod FoundCommands
pub mod MatchedPhases
