-- What the pass over a list keeps.
pub mod Records
