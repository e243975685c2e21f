pub mod Answers
pub mod Unique
pub mod Ownership
