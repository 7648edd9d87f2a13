-- What the functions of the inverse keep and return.
pub mod Negative
pub mod Quotient
pub mod Zeros
pub mod Binary
pub mod Finish
