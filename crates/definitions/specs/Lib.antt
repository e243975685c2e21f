pub mod Words
pub mod Family
pub mod Compress
pub mod Schedule
pub mod Hash
pub mod Tree
pub mod Vectors
