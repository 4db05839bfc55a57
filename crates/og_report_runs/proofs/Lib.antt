pub mod Floats
pub mod Parts
pub mod Placed
pub mod Sought
