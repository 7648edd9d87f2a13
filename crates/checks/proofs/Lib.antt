-- Why the functions on the numbers of records find what they find.
pub mod Answer
