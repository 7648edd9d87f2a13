-- The ground of the arithmetic on a curve.
pub mod Ground
