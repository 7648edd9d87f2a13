-- Ideals that lie inside powers of different ideals.
pub mod Powers
pub mod Meet
pub mod Products
pub mod Bound
