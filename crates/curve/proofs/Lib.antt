-- Facts on the coordinate ring of a C34 curve.
pub mod Component
pub mod Back
pub mod Coefficient
pub mod Pole
pub mod Table
pub mod Term
pub mod Filtration
pub mod Lead
pub mod Product
pub mod Poles
pub mod Equation
pub mod Vector
pub mod Monomial
