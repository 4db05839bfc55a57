pub mod Reported
pub mod Explored
pub mod Words
pub mod Drawings
