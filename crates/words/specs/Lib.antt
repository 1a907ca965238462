pub mod Sizes
pub mod Field
pub mod Decode
pub mod Encode
