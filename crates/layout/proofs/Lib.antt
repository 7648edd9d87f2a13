-- Laws of the bytes of a record.
pub mod Bytes
pub mod Read
pub mod Record
