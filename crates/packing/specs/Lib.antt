-- Numbers of w bits packed one behind the other.
pub mod Packing
pub mod Contract
