pub mod Fresh
pub mod Undone
pub mod Frame
pub mod Walked
pub mod Demand3
pub mod Directed
pub mod Positions
