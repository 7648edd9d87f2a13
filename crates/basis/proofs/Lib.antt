-- The vectors of a record and their triple; the basis test; the ideal that a record's triple spans.
pub mod Row
pub mod Member
pub mod Choice
pub mod Ideal
pub mod Test
