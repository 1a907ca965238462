pub mod Register
pub mod State
