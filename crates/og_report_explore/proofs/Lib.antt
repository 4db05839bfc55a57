pub mod Floats
pub mod Tables
