pub mod Bytes
pub mod Residues
pub mod Extended
pub mod Sums
pub mod Written
