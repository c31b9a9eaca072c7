pub mod Rules
pub mod Limits
pub mod Statuses
pub mod Faults
pub mod Outside
pub mod Stores
