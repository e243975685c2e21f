pub mod Answers
pub mod Job
pub mod Batch
