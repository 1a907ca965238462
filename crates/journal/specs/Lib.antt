pub mod Left
pub mod Calls
