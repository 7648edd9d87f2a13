-- The equation of a C34 curve in the plane, its derivatives, and nonsingular curves.
pub mod Equation
pub mod Nonsingular
pub mod Normal
pub mod Derivative
