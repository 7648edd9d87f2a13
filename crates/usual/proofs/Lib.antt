-- Why the formulas give the sum.
pub mod Equate
pub mod Complete
pub mod Pivots
pub mod Twins
pub mod Matrices
pub mod Served
pub mod Asked
