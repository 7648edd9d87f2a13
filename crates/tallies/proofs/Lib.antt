-- Tallies of one record more.
pub mod More
