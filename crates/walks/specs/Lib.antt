pub mod Output
pub mod Paper
