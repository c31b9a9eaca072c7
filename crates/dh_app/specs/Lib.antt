-- what the contract of the top call rests on
pub mod Words
pub mod Lines
pub mod Asking
pub mod Engines
pub mod Inputs
pub mod Replies
pub mod Sources
pub mod NetStage
pub mod Reporting
pub mod CheckJob
pub mod LowerJob
pub mod InterpretJob
pub mod SimulateJob
pub mod Jobs
pub mod Ends
pub mod Promises
-- what its parts promise one another
pub mod Parts
