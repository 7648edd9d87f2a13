-- Multiples of vectors by powers of y: what the functions on them ensure.
pub mod Contract
