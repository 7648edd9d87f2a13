-- From the records of a list to what is printed.
pub mod Parts
pub mod Printed
