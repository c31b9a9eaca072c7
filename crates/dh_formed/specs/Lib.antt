-- what a plan asks of the operations of a block, and that those of expressions are so
pub mod Formed
pub mod FormedLaws
-- what is counted of them
pub mod Counted
pub mod CountedLaws
-- when they are there
pub mod Timed
pub mod TimedLaws
-- a block whole
pub mod WholeBlocks
-- commands
pub mod Commanded
-- from the kinds of a typed program
pub mod TypedOperands
