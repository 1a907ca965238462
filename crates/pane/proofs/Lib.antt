pub mod Drawing
pub mod Answers
