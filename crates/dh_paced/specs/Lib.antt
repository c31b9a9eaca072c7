-- the reads of commands, and the levels of the tests round their accesses
pub mod Paced
-- the variables that commands assign to
pub mod Assigned
-- what stands where a command begins
pub mod Standing
-- blocks are as long as their phases
pub mod BlockLengths
