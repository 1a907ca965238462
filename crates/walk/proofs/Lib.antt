pub mod Walked
mod Literals
