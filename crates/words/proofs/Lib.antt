pub mod Decoding
pub mod Parts
pub mod Encoding
pub mod Answers
