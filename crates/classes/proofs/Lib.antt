-- Why the functions on the ground of a curve find what they find.
pub mod Values
pub mod Read
pub mod Multiple
pub mod Made
