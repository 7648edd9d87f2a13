-- Lists that are read record by record.
pub mod Walk
pub mod Lists
