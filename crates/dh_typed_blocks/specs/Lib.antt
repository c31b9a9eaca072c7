pub mod SimpleBlocks
pub mod PlainPrograms
pub mod TypedTerms
pub mod ScenesTold
pub mod SoundBlocks
