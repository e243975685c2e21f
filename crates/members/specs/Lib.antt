pub mod Row
pub mod Answers
pub mod Keeper
pub mod Sizes
pub mod Member
