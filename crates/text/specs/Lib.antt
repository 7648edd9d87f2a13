-- Text as bytes.
pub mod Ascii
pub mod Decimal
pub mod Put
pub mod Written
