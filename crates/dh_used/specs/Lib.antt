-- sites of accesses, and the accesses of the source
pub mod SourceSites
-- how often blocks use them
pub mod UsedBlocks
-- how often plans use them
pub mod UsedPlans
-- plans as they are made
pub mod MadePlans
pub mod SourceReaches
-- how they name elements
pub mod SourceAims
