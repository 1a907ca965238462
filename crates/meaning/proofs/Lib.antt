pub mod Sizes
pub mod Effects
pub mod Summed
pub mod LowWritten
