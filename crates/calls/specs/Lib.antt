-- What each call of the library returns, and what the result buffer then holds.
pub mod Answer
pub mod Class
pub mod Quick
pub mod Call
pub mod Pool
