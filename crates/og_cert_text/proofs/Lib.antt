pub mod Above
pub mod Adding
pub mod Forms
pub mod Plains
pub mod Stored
pub mod Writing
