pub mod Sizes
pub mod Answers
pub mod Params
pub mod State
pub mod Row
