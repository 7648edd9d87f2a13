-- Power series over a commutative ring, and their values.
pub mod Series
pub mod Value
