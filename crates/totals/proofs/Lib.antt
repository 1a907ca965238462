pub mod Accepted
pub mod OneLane
pub mod Lanes
pub mod Literals
pub mod Answers
pub mod Rows
pub mod Written
