pub mod Part
pub mod Number
pub mod Text
pub mod Found
