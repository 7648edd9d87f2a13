-- Laws of packed numbers.
pub mod Laws
pub mod Placed
pub mod Width
pub mod Laid
pub mod Taken
