-- Laws of the spans of triples.
pub mod Reduction
