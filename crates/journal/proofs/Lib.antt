pub mod Left
pub mod Accepted
pub mod Answers
pub mod Literals
