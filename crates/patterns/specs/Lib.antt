pub mod Lanes
pub mod Text
