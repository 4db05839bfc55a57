pub mod Inequality
pub mod Bounds
pub mod Errors
pub mod Rows
pub mod Variables
