pub mod CountedParts
pub mod SeenPhases
pub mod PhasesMatched
pub mod PhasesAnywhere
pub mod PhasesRead
pub mod CommandsFound
