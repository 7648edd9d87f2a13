-- Multiples of divisors by value.
pub mod Copies
