pub mod Pigeons
pub mod CarriedKeys
pub mod LeadingElements
pub mod WaysReached
pub mod GroupedKeys
pub mod ChargedBanks
