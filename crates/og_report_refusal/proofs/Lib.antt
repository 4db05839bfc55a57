pub mod Places
pub mod Joins
mod Hints
pub mod Templates
