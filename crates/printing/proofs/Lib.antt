-- The lines of a report piece by piece.
pub mod Lines
