-- Why the roots of a polynomial are found.
pub mod Differences
pub mod Passing
pub mod Line
