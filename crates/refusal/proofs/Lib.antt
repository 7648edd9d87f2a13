-- What holds of results with a refusal.
pub mod Passed
