-- The points of a curve: their records, the bound on multiplicities, and their order.
pub mod OnCurve
pub mod Vanish
pub mod Records
pub mod Times
pub mod Order
pub mod Coordinates
pub mod Degree
pub mod Determined
pub mod Copies
