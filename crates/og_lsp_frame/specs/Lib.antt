pub mod Errors
pub mod Front
pub mod Headers
pub mod Read
pub mod Writes
