pub mod Buffer
pub mod Deal
pub mod Leaves
