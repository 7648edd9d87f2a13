-- The first three columns of the matrix of two records of kind 31.
pub mod Pivots
