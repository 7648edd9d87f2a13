-- Where the quick sum is served.
pub mod Served
