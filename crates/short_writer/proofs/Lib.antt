-- What the function that writes short records leaves.
pub mod Put
