-- Laws of the functions on divisors by value.
pub mod Divisor
pub mod Stars
pub mod Sums
pub mod Formulas
