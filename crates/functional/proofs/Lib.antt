-- The functional of an element f, and what it says of the colon ideal (f : J) of an ideal J with the least element f.
pub mod Total
pub mod Apply
pub mod Pairing
pub mod Build
pub mod Kernel
pub mod Degrees
pub mod Member
pub mod Equations
pub mod Candidate
