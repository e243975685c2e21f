pub mod Chain
pub mod Blocks
pub mod Offsets
