-- Laws of numbers of w bits read of bytes.
pub mod Steps
