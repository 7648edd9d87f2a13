-- What a walk over two divisors meets.
pub mod Met
