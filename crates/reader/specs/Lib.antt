-- What the functions on records in bytes require and ensure.
pub mod Contract
pub mod Reading
