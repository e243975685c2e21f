pub mod Both
pub mod Copies
pub mod Fronts
pub mod Lending
pub mod Unique
