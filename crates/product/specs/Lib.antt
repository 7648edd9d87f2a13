-- Products of spans: what the functions on them ensure.
pub mod Contract
