-- Numbers as an i32, why the record of a divisor is written, and what a call does with what was found.
pub mod Found
pub mod Number
pub mod Write
