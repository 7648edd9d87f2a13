-- What the functions that read short records require and ensure.
pub mod Reading
