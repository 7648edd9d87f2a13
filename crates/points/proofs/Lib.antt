-- Why the calls on points answer what they answer.
pub mod Walk
pub mod Found
