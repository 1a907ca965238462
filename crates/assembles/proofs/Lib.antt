pub mod Free
pub mod Numbers
pub mod Ends
pub mod Back
pub mod Assembling
pub mod Theorems
pub mod Literals
