pub mod CellsAppended
pub mod NarrowCells
pub mod WiresFitWidths
pub mod SuitingRegisters
pub mod OperatorBits
pub mod WiresMade
pub mod ShiftsMade
pub mod WireTrees
