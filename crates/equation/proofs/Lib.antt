-- The vectors of y³ and of the derivatives, and what the degrees of the derivatives' ideal say.
pub mod Vectors
pub mod Singular
