-- The tallies of a list of records.
pub mod Tallied
