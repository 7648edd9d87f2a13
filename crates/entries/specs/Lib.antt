-- The matrix of two divisors.
pub mod Contract
