pub mod Body
pub mod Layout
