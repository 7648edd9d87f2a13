-- What is made of divisors in bytes, and what is found of them on the ground of a curve.
pub mod Found
pub mod Made
