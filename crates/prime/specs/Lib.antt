-- Primes.
pub mod Prime
