-- What the functions that put the lines of a report ensure.
pub mod Contract
