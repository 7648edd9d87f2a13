-- The sign and the size of a whole number.
pub mod Whole
