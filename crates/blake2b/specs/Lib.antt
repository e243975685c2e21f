pub mod Answers
pub mod Params
pub mod Member
pub mod Row
