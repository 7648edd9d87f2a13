-- The sum of two divisors by value, by the second road.
pub mod Contract
