-- Records in bytes: what is accepted, what is refused and by which number.
pub mod Cause
pub mod Curve
pub mod Fractions
pub mod Divisor
pub mod Listed
pub mod Value
