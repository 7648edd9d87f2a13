-- Short records, and the two calls on them.
pub mod Short
pub mod ShortCall
