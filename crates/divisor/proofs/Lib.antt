-- Records as ideals: members, closure under y, bases, uniqueness and existence of records, recognition of stars.
pub mod Monomials
pub mod Terms
pub mod Table
pub mod Members
pub mod Over
pub mod Divide
pub mod Basis
pub mod Star
pub mod Unique
pub mod Exists
pub mod Class
pub mod Codes
