pub mod ListItems
pub mod InPlace
pub mod InArms
pub mod StoreCalls
