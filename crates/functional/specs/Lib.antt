-- Linear functionals on the coordinate ring.
pub mod Functional
