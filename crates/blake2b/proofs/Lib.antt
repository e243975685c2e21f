pub mod Buffered
pub mod Cleaned
pub mod OneShot
pub mod Plain
pub mod Members
pub mod Rows
pub mod Unique
