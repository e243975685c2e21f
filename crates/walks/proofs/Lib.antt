pub mod Locals
pub mod Settled
pub mod Tests
pub mod Turns
pub mod Walk
