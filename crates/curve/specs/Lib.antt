-- The coordinate ring of a C34 curve, normal monomials and their pole numbers, elements as sequences of coefficients.
pub mod Cubic
pub mod Curve
pub mod Pole
pub mod Monomial
pub mod Sequence
pub mod Table
