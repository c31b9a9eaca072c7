pub mod Layouts
pub mod Rooms
pub mod Points
pub mod Shows
pub mod Underway
