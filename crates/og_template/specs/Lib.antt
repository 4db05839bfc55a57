pub mod Front
pub mod Mask
pub mod Words
pub mod Faults
