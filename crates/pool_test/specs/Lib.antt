-- The pool of the test.
pub mod Start
