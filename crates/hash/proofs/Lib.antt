pub mod Digests
pub mod Turns
pub mod Unique
pub mod Outputs
