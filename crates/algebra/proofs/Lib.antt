-- Laws of commutative rings, tests by computation and the ring solver; the rings of numbers modulo m and of normal forms modulo a cubic.
pub mod Laws
pub mod Test
pub mod Norm
pub mod Sound
pub mod Solve
pub mod Cubic
pub mod Modulo
pub mod Answers
