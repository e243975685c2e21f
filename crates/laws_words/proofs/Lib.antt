pub mod Lists
pub mod Rotate
pub mod Bytes
pub mod Stores
pub mod Compression
pub mod Parameters
pub mod FromFn
