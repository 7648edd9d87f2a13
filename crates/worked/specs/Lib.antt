-- The worked sums of document 01, and the examples of document 02.
pub mod Table
pub mod Fractions
pub mod Points
pub mod Words
pub mod Parts
pub mod Order
pub mod Typical
