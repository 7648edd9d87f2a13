-- Formulas, and what the functions require and ensure.
pub mod Contract
pub mod Divides
