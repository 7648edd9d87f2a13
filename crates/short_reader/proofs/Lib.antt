-- What the reader of a short record finds.
pub mod Places
pub mod ShortReader
pub mod Record
pub mod Grounds
