pub mod Readings
pub mod RowsShown
pub mod MadeOperations
