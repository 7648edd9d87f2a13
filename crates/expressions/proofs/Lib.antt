-- Expressions of the ring solver as elements of the coordinate ring.
pub mod Letters
pub mod Value
pub mod Coefficients
pub mod Zeros
