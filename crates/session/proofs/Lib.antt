pub mod Bodies
pub mod Reading
pub mod Literals
