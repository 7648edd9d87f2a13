-- What the functions on combinations of ideals do.
pub mod Spans
pub mod Members
pub mod Adding
pub mod Stars
