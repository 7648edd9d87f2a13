-- Ideals of a commutative ring, pole numbers, least elements, stars and reduced ideals; sums, intersections and invertible ideals.
pub mod Ideal
pub mod Poles
pub mod Reduced
pub mod Parts
pub mod Invertible
