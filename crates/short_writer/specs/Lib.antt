-- What the function that writes short records requires and ensures.
pub mod Contract
