-- The coordinate ring as k[x, y] modulo F, the images of F's derivatives, and a test for nonsingular curves.
pub mod Quotient
pub mod Derivative
pub mod Nonsingular
