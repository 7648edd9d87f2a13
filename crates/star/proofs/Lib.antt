-- The numbers of the star as the code computes them; what is known of a triple; the divisor is the star.
pub mod Numbers
pub mod Asked
pub mod Result
