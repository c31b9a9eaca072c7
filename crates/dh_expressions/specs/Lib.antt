-- what the public contracts rest on: operations in step with their words, then expressions, reads and writes
pub mod Numbers
pub mod Levels
pub mod Counting
pub mod Drafted
pub mod Shown
pub mod Named
pub mod ReachedBanks
pub mod Copying
pub mod Standings
pub mod Noted
pub mod Evaluated
pub mod Reaching
-- what functions inside the crate promise one another
pub mod Multiples
pub mod Passing
pub mod Touching
-- which operations are put down
pub mod MadeValues
pub mod MadeTerms
pub mod ViewsTold
