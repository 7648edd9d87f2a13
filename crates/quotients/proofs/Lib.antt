-- Why the quotients of fractions modulo p are found.
pub mod Signed
pub mod Denominators
pub mod Loops
