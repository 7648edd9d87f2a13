-- What the functions that list the points of a divisor require and ensure.
pub mod Contract
