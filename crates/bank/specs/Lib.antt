pub mod Answers
pub mod Rules
pub mod Table
pub mod Slots
pub mod Apart
pub mod Made
