pub mod Sizes
pub mod Answers
pub mod Hash
pub mod Output
