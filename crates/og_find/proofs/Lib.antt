pub mod Turns
pub mod Certified
