-- Laws of the calls: classes of records, the answers of each call, common parts and common multiples, adding by pairs.
pub mod Places
pub mod Together
pub mod Class
pub mod Multiples
pub mod Answers
pub mod Values
pub mod Exists
pub mod Parts
pub mod Determined
pub mod Shut
pub mod Step
pub mod Pairs
