pub mod Size
pub mod Refusal
