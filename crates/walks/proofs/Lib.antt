pub mod Printed
pub mod Outputs
pub mod Paper
pub mod Cut
pub mod Whole
pub mod Executed
pub mod Made
