pub mod Lane
pub mod Integer
pub mod Sum
