pub mod Outside
pub mod Posts
