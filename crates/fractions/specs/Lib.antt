-- What the functions on records of fractions require and ensure.
pub mod Contract
