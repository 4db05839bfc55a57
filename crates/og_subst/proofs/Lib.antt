pub mod Moved
pub mod Touching
pub mod Running
pub mod Mapping
pub mod Equal
pub mod Terms
