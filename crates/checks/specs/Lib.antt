-- What the functions on the numbers of records require and ensure.
pub mod Contract
