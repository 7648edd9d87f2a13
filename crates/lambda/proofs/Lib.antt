-- What the functions on the functional Λ compute.
pub mod Pairing
pub mod Leads
pub mod Partial
