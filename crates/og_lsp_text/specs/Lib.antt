pub mod Positions
pub mod Starts
pub mod Walk
