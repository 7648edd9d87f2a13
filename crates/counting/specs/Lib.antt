-- What the functions of the counting program require and ensure.
pub mod Contract
