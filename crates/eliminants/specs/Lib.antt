-- What the functions on the eliminants of a divisor require and ensure.
pub mod Contract
pub mod Parts
