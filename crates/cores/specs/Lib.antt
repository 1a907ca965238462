pub mod Need
pub mod Core
