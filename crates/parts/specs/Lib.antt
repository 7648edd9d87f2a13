-- Common part and common multiple of two divisors by value.
pub mod Contract
