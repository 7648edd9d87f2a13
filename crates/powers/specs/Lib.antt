-- Powers of an ideal.
pub mod Power
