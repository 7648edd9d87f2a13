-- The laws of records: refusals, invertible ideals, values and bytes, lists, fractions, uniqueness.
pub mod Cause
pub mod Accepted
pub mod Invertible
pub mod Written
pub mod Lists
pub mod Fractions
pub mod Unique
pub mod Suffices
