-- Why the second road gives the sum.
pub mod Steps
