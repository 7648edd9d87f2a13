-- What the functions for the sum by formulas require and ensure.
pub mod Contract
pub mod Trial
