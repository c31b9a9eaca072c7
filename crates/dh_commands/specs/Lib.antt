-- what the public contracts rest on: paths with guards, variables, what a command takes, then what it does
pub mod LanesRun
pub mod ShownVariables
pub mod Keeping
pub mod Followed
pub mod Undone
pub mod Done
-- what functions inside the crate promise one another
pub mod Setting
pub mod Joined
pub mod Choosing
pub mod Parted
pub mod MadeCommands
