-- Laws of power series.
pub mod Product
pub mod Bounds
pub mod Value
