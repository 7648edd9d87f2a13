-- What the functions on the quotients of fractions require and ensure.
pub mod Contract
