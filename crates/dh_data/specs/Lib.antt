pub mod DataFiles
pub mod Reading
pub mod Reports
