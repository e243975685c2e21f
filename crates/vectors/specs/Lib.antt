pub mod Cases
pub mod Digests
