pub mod Needs
pub mod Answers
pub mod Deciding
