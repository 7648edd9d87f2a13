-- Triples of vectors over k[x], and what the functions on them ensure.
pub mod Setting
pub mod Triple
pub mod Contract
