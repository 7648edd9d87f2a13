-- The ideal of a record on a nonsingular curve is invertible.
pub mod Formula
pub mod Value
pub mod Vanish
pub mod Certificate
pub mod Relations
pub mod Sound
pub mod Record
pub mod Adjugate
