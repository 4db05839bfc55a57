pub mod WalkItems
pub mod Ranges
pub mod Moves
pub mod Hiding
pub mod Joins
pub mod Accessing
