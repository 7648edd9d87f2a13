-- The table of normal monomials, and the product of two vectors.
pub mod Monomial
pub mod Contract
