-- What the functions on a pool in lent memory ensure.
pub mod Run
