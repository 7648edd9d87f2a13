-- The causes of refusal: their numbers, and what is printed of them.
pub mod Refusal
