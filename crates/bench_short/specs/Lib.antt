-- What bench_shorten gives.
pub mod Contract
