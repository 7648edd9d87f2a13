-- What the loops require, and what the calls return.
pub mod Contract
