pub mod Versions
pub mod Places
pub mod Slots
pub mod Formed
pub mod Written
pub mod Closed
pub mod Restored
pub mod Literals
