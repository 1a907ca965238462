pub mod Same
pub mod Parts
pub mod Put
pub mod Numbers
pub mod Found
