-- Laws of spans inside others.
pub mod Rests
pub mod Powers
