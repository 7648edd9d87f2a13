-- Laws that the function's proof cites.
pub mod Exact
pub mod Factor
pub mod Width
pub mod Made
