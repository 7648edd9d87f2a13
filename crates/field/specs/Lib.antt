-- The ring of residues modulo p, inverses, and what the functions require and ensure.
pub mod Residue
pub mod Inverse
pub mod Contract
