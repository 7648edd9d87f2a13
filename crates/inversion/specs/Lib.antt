-- What the functions that the inverse is made of require and ensure.
pub mod Contract
