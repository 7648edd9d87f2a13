-- Divisors by value, and what the functions on them ensure.
pub mod Divisor
pub mod Contract
