-- The loops over the products of a sum.
pub mod Loops
