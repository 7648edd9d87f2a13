-- What the loops on products of spans do, and what that means for the ideals.
pub mod Products
