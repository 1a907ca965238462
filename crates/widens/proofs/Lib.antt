pub mod InPlace
pub mod Fed
