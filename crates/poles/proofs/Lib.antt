-- Pole numbers by coefficients.
pub mod Monic
