-- Curves by the numbers of their coefficients, and what the functions on them ensure.
pub mod Equation
