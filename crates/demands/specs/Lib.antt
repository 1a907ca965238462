pub mod Made
pub mod Demands
pub mod Anywhere
pub mod Told
