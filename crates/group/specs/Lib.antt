-- Sums and negatives of divisors by value.
pub mod Contract
