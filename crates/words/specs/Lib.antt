-- The words of four bytes of a string of bytes, and two strings compared word by word.
pub mod Words
pub mod Contract
