-- Why the calls on the common part of two divisors answer as they do.
pub mod Results
