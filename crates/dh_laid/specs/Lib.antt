-- what is asked of the operations of commands, and that they are so
pub mod Laid
-- whole commands
pub mod LaidCommands
-- the numbers of their accesses
pub mod LaidNumbers
-- nothing is checked or set
pub mod LaidQuiet
-- multiplications
pub mod LaidProducts
-- probes
pub mod LaidProbes
-- where the accesses of blocks stand
pub mod BlockSites
-- accesses without operations
pub mod BareCommands
-- each access has a fault of its own
pub mod LaidFaults
-- accesses are laid
pub mod LaidAccesses
-- how often accesses are made
pub mod LaidUses
