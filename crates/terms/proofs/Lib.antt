-- What an entry of the table says, and what the loop over it does.
pub mod Entry
pub mod Table
pub mod Portion
pub mod Product
