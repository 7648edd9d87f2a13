-- Where the quick sum is served.
pub mod Records
pub mod Serving
