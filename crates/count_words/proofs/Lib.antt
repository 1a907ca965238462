pub mod Blocks
pub mod Tallies
