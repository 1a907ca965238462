pub mod Keys
pub mod Pieces
pub mod Naming
pub mod Examples
pub mod Literals
