-- That the pool of the test is one, and what its calls leave.
pub mod Start
