pub mod Word
pub mod Read
