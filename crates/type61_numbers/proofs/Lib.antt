-- The numbers of the reduced ideal of an ideal of type 61.
pub mod Equations
pub mod Identity
pub mod Numbers
pub mod Unique
pub mod Record
