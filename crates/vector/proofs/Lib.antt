-- What the loops on vectors do, and what that means for the elements that the vectors stand for.
pub mod Loop
pub mod Monomial
pub mod Element
pub mod Lead
