pub mod Batches
pub mod Firsts
pub mod Jobs
pub mod Mapped
pub mod Outcomes
pub mod Places
pub mod Unique
