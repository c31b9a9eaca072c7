pub mod Begins
pub mod Drafts
pub mod Costs
pub mod Fresh
pub mod Ledgers
pub mod Standings
pub mod Units
