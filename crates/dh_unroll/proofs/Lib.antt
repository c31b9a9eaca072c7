pub mod SharesNarrowed
pub mod ReachedSets
pub mod ViewsListed
pub mod ScenesMade
pub mod PlansUnrolled
