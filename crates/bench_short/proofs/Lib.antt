-- What is read of a record.
pub mod Value
