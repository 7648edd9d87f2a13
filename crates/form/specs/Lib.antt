-- What the functions on the form of records ensure.
pub mod Contract
