pub mod Determined
pub mod Lengths
