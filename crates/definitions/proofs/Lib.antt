pub mod Lengths
pub mod Schedule
