-- What the walks say.
pub mod Contract
