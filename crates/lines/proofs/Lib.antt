pub mod Pieces
pub mod Hex
pub mod Lines
pub mod Longest
pub mod Placed
pub mod Literals
