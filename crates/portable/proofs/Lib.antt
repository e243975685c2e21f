pub mod FirstWords
pub mod Meaning
pub mod Strides
