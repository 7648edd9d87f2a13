-- Combinations of the ideals of two divisors.
pub mod Contract
