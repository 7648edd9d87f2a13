-- What stores one after the other leave.
pub mod Stores
