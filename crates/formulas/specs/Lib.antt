-- The formulas for the sum of two divisors of kind 31.
pub mod Contract
