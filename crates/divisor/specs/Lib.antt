-- The kinds of divisor records, their polynomials and ideals.
pub mod Kind
