-- Laws of records in slots of lent memory.
pub mod Slots
