-- Matrices of three rows of five residues, and what the functions on them require and ensure.
pub mod Matrix
pub mod Contract
