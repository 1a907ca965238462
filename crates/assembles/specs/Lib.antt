pub mod Reading
pub mod Assembled
