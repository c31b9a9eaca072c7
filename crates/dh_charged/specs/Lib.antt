-- registers that commands see, and give values to
pub mod SeenRegisters
-- blocks that see and set registers as a plan asks
pub mod TouchedBlocks
-- leaders and keys
pub mod LeadersCounted
-- accesses that may meet
pub mod MetAccesses
-- charges of reads and writes
pub mod ChargedUses
-- memories of accesses
pub mod AccessMemories
-- charges of blocks and of plans
pub mod ChargedBlocks
