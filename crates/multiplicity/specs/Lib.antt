-- What the functions on triples inside others require and ensure.
pub mod Contract
