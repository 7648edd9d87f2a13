-- Why the calls of the quick sum answer as they do.
pub mod Serving
