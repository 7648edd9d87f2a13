-- Ideals of type 61, the products of two disjoint divisors of degree 3 in the usual case, and their reduced ideals.
pub mod Form
pub mod Reduction
pub mod Shape
