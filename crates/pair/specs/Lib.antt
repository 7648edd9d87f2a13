-- What the functions on pairs of coordinates ensure.
pub mod Contract
