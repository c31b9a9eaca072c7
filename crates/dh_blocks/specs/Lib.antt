-- paths, what is found along a block, the reads that are chosen by it
pub mod PathsOfLevels
pub mod FoundAccesses
pub mod ChosenReads
pub mod LeaderLaws
-- what is asked of the names and expressions of a block
pub mod NamedVariables
pub mod SoundTerms
pub mod BlockGround
pub mod SoundCommands
pub mod SlotsOfScene
pub mod BlockMade
pub mod BlockLaws
pub mod BlockTraced
pub mod TestMade
pub mod ProgramLaws
