pub mod Starts
pub mod Units
pub mod Back
