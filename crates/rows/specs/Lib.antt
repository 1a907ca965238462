pub mod Digits
pub mod Table
pub mod Widening
