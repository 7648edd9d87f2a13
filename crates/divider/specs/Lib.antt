-- What the maker of a divider requires.
pub mod Contract
