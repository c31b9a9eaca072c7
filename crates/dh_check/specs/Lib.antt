pub mod Acceptance
pub mod Verdicts
pub mod Ready
