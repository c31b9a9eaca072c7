-- the earlier reads that accesses share, in 32 bits
pub mod Shares
-- the views of a plan, and what accesses take of them
pub mod ViewsListed
-- what `unroll` promises
pub mod Unrolled
