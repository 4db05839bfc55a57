pub mod Claiming
pub mod Blocks
pub mod Pairs
pub mod Listing
pub mod Joins
