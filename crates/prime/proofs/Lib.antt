-- Laws of primes.
pub mod Primes
pub mod Answer
