pub mod Adding
pub mod Listed
pub mod Head
pub mod Locals
pub mod Driving
pub mod Text
pub mod Ranges
