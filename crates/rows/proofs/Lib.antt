pub mod Digits
pub mod Every
pub mod Rows
pub mod OneRow
pub mod Widening
pub mod Answers
