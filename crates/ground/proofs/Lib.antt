-- Why the ground of a curve is one.
pub mod Unit
