-- The functional Λ by its values: what the functions on it require and ensure.
pub mod Lambda
