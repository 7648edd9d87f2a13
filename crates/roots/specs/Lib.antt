-- What the functions on the roots of a polynomial require and ensure.
pub mod Contract
