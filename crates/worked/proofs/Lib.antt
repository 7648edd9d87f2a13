-- That the worked sums and the examples hold.
pub mod Vanish
pub mod Tests
pub mod Element
pub mod Basis
pub mod Accepted
pub mod Link
pub mod Negative
pub mod Rows
pub mod Certificates
pub mod Worked
pub mod Fractions
pub mod Points
pub mod Words
pub mod Parts
pub mod Order
pub mod Typical
