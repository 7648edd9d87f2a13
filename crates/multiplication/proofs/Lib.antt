-- What the loops on multiples of vectors do, and what that means for the elements that the vectors stand for.
pub mod Shift
pub mod ByY
pub mod Powers
