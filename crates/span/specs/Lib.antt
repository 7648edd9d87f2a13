-- Spans of triples: what the functions on them ensure.
pub mod Contract
