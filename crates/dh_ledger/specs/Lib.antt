pub mod Spending
pub mod Granted
pub mod Calls
pub mod Counts
