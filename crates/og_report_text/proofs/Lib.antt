pub mod Cuts
pub mod Terms
pub mod Ends
pub mod Joins
