pub mod Bits
pub mod Bytes
pub mod Each
pub mod Made
pub mod Literals
