pub mod Numbers
pub mod Tests
pub mod Answers
pub mod Texts
