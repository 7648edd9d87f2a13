-- Why the row-reduced form is one.
pub mod Cramer
pub mod Reduced
