pub mod Widths
pub mod About
