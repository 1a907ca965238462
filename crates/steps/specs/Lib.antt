pub mod Calls
pub mod Needs
pub mod Frame
pub mod Former
