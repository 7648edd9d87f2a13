-- Doubling and adding.
pub mod Copies
