pub mod Bytes
pub mod Halves
