pub mod Walk
pub mod Travel
