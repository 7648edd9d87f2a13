-- Why the coefficients are those of the polynomials of a divisor.
pub mod Formulas
pub mod Chosen
