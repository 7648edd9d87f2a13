-- Why the reduced curve is found and written.
pub mod Reduced
pub mod Written
