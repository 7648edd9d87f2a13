-- The line of the share piece by piece.
pub mod Share
