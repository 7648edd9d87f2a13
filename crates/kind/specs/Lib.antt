-- The kinds of divisor records.
pub mod Kinds
