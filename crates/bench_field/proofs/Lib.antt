-- Laws of the loops.
pub mod Turns
