pub mod ProgramLoops
pub mod TopPaths
pub mod ToldScenes
pub mod DonePhases
