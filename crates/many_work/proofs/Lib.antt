pub mod Runs
pub mod Works
