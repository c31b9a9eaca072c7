pub mod MadeCopies
pub mod ReachedThrough
pub mod CarriedLaws
