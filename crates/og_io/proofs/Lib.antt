pub mod Adding
pub mod Passing
pub mod Taking
pub mod Writes
