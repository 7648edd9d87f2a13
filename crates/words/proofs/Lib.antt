-- Laws of words and of how many pairs of them are compared.
pub mod Compared
