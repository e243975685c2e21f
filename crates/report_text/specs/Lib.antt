pub mod Ascii
pub mod Lines
pub mod Answers
pub mod Report
pub mod Reads
