pub mod Patterns
pub mod Powers
pub mod Largest
pub mod Texts
pub mod Answers
pub mod Literals
