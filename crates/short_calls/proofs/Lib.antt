-- From what is read of bytes to what the two calls answer.
pub mod Found
pub mod Write
