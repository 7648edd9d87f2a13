-- Commutative rings, fields and ring maps; numbers modulo m; normal forms modulo a monic cubic.
pub mod Ring
pub mod RingMap
pub mod Cubic
pub mod Modulo
pub mod Answers
