-- Columns of two records of kind 31, and by them products and squares of their ideals as ideals of type 61.
pub mod Column
pub mod Formulas
pub mod Transfer
pub mod Products
