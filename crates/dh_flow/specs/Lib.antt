pub mod Footprints
pub mod Measured
pub mod PlainFlows
pub mod ToldWays
pub mod GraphWalks
pub mod StraightGraphs
