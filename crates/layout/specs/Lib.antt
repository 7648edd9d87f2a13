-- The bytes of a record, and what the functions on bytes ensure.
pub mod Layout
pub mod Contract
