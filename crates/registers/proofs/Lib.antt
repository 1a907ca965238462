pub mod Places
pub mod Numbers
pub mod States
pub mod Padded
pub mod Told
pub mod Back
