pub mod Lanes
pub mod Phased
pub mod Frames
pub mod Steps
pub mod Runnable
pub mod Held
pub mod Runs
pub mod Starts
