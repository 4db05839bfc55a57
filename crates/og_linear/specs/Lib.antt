pub mod Linear
pub mod Tidy
pub mod Arith
pub mod Bounded
pub mod Replaced
pub mod Answer
pub mod Faults
