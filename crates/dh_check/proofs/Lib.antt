pub mod OneVerdict
pub mod Passing
pub mod Texts
pub mod Checked
pub mod Shaped
