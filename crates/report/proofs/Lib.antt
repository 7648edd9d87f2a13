-- What is printed is one text for each input; what rounding does; which records are typical; the examples of documents 01 and 02.
pub mod Cut
pub mod Determined
pub mod Examples
pub mod Rounded
pub mod Typical
