pub mod Abc
pub mod Appending
pub mod Decimals
pub mod Longest
pub mod ReadingLaws
pub mod Reports
pub mod Unique
pub mod Readings
