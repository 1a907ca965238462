pub mod Terms
pub mod Meaning
pub mod Execute
pub mod Needs
pub mod Theorems
