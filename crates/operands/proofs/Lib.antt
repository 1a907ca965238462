pub mod Further
pub mod Answers
