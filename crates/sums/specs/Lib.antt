pub mod Sums
pub mod Split
pub mod Panel
