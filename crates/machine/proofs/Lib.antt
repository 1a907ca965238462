pub mod Places
pub mod Tests
pub mod Legal
pub mod Checks
pub mod Literals
pub mod Sizes
pub mod Codes
pub mod Told
