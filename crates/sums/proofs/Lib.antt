pub mod Widths
pub mod Ranges
pub mod Split
pub mod Rows
pub mod Panels
pub mod Columns
pub mod Matters
