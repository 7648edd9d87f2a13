-- What one pass over a list finds.
pub mod Found
