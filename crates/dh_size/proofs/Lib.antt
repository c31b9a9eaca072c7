pub mod SummedParts
pub mod UnitSizes
pub mod PathTurns
pub mod IndexTurns
pub mod MarkTurns
pub mod ChargedBanks
pub mod EventSizes
pub mod ThroughBanks
