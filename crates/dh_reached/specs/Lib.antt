-- what is put down for a block, at its paths, and what it reads and writes
pub mod Puts
-- which banks a block reaches in a step
pub mod StepBanks
-- indices whose banks are those of every turn
pub mod IndicesKept
-- which accesses are reads, and which share one
pub mod ReadsTold
-- blocks as they are reached in a step
pub mod ReachedBlocks
-- accesses that never meet
pub mod NeverMeet
-- steps by nodes
pub mod StepsOfNodes
-- plans whose blocks are put down in a scene
pub mod ReachedPlans
