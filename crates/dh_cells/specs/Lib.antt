pub mod NarrowShifts
pub mod PlainCircuits
pub mod Settled
pub mod ShownValues
pub mod FirstTests
pub mod SoughtCells
