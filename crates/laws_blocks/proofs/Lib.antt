pub mod Rows
pub mod Chains
pub mod Fronts
pub mod Shares
pub mod Calls
pub mod Sizes
pub mod Offsets
pub mod Turns
