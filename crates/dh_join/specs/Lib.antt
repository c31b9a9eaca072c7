pub mod AddedCells
pub mod JoinedDrivers
pub mod JoinedPorts
pub mod JoinedNets
