-- What is written of a divisor that was found, or refused.
pub mod Written
