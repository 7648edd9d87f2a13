-- The pole numbers of the coordinate ring.
pub mod Poles
