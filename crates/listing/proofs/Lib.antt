-- Why the points of a divisor are listed, each as often as its multiplicity.
pub mod Multiples
pub mod Slices
pub mod Counted
pub mod Missed
pub mod Scan
pub mod Lines
