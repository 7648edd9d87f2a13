-- Why the functions on common parts meet their contracts.
pub mod Classes
pub mod Degrees
pub mod Common
pub mod Equivalents
