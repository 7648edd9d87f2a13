-- Vectors of residues, indexed by pole number, and what the functions on them ensure.
pub mod Vector
pub mod Contract
