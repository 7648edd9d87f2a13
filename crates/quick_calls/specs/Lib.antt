-- What the quick sum by value ensures.
pub mod Added
