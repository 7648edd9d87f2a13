-- Laws of decimal numbers and of bytes put one after the other.
pub mod Decimal
pub mod Put
