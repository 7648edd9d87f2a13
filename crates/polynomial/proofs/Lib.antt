-- Facts on polynomials.
pub mod Coef
pub mod Induct
pub mod Bound
pub mod Deriv
pub mod Eval
pub mod Plane
pub mod Cubic
pub mod Division
pub mod Kernel
