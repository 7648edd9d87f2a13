-- Laws of short records, and the theorems on the two calls.
pub mod Example
pub mod Width
pub mod Accepted
pub mod Whole
pub mod Apart
pub mod Round
pub mod Length
