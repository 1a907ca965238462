pub mod Layout
pub mod Formed
pub mod Tests
pub mod Needs
pub mod Restored
