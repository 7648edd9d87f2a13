-- Sums of products modulo p.
pub mod Contract
