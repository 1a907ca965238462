pub mod Arms
pub mod Answers
pub mod Needs
pub mod Literals
