-- Polynomials over a commutative ring, evaluation, derivatives, polynomials in two variables.
pub mod Poly
pub mod Deriv
pub mod Eval
pub mod Plane
