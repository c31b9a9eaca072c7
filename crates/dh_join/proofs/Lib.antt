pub mod CellsGrown
pub mod DriversStand
pub mod PortsDriven
pub mod PortsListed
pub mod WiresKept
pub mod SameRuns
