-- The field of p elements.
pub mod Field
