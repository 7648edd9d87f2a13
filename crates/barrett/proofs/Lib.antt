-- Laws that the functions' proofs cite.
pub mod Halves
pub mod Quotient
pub mod Sums
