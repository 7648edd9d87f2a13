-- The star of a triple: what star and its parts require and ensure.
pub mod Parts
pub mod Contract
