pub mod ValueWires
pub mod ReadWires
pub mod RegistersShown
pub mod BlockWires
pub mod ShownNumbers
