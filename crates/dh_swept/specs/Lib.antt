pub mod RenamedWires
pub mod SweptNets
pub mod SweptLaws
pub mod NeededCells
pub mod FoundWires
pub mod KeptCells
pub mod SweptParts
