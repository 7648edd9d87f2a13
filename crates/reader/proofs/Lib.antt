-- Why the readers find what they find.
pub mod Answer
pub mod DivisorReader
pub mod CurveReader
pub mod Ground
pub mod ListReader
