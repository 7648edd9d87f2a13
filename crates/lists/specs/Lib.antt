-- What is found of a list, and what is made of its records.
pub mod Totals
pub mod Fold
