mod Groups
pub mod Standing
pub mod Zips
