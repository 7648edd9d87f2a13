-- Why one inversion is enough, and the last numbers.
pub mod Inverted
pub mod Divided
