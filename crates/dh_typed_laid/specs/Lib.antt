pub mod SuitingBlocks
pub mod FormedBlocks
