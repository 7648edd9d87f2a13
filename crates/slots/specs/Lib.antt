-- Records in slots of lent memory, and what the functions on them ensure.
pub mod Held
