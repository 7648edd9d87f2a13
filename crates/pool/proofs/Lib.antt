-- Laws of a pool in lent memory.
pub mod Calls
pub mod OneCall
pub mod Runs
