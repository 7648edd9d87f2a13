-- What the counting program prints.
pub mod Report
pub mod Input
