-- The points of a curve and of a divisor, and the two calls on points.
pub mod Value
pub mod Point
pub mod PointCall
