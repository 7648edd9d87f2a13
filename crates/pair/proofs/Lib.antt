-- Why read_pair finds what it finds.
pub mod Pairs
