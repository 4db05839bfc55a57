pub mod Loops
mod Texts
pub mod Refusing
mod Sums
