-- What the functions below the calls on points ensure; the calls' own contracts are those of crate point.
pub mod Contract
