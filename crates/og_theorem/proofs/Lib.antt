pub mod Chain
pub mod Steps
pub mod Invariant
pub mod Sound
pub mod Stuck
pub mod Projections
pub mod Erased
pub mod Examples
