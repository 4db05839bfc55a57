pub mod Kept
pub mod Turns
pub mod Terms
pub mod Trees
