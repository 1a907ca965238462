pub mod Puts
pub mod Decimals
pub mod Examples
