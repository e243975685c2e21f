pub mod Lengths
pub mod States
pub mod Exits
