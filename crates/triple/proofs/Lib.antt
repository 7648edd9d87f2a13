-- Laws of triples of vectors over k[x].
pub mod Element
pub mod Members
pub mod Leads
pub mod Turns
pub mod Insertion
pub mod Listed
pub mod Empty
pub mod Filling
