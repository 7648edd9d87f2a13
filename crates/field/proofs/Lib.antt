-- Laws of residues and of inverses, and laws that the functions' proofs cite.
pub mod Element
pub mod Invert
pub mod Sums
pub mod Products
