pub mod Sizes
pub mod Leaves
