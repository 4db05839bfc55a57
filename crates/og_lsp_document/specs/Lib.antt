pub mod Faults
pub mod Hovers
pub mod Judged
pub mod Parts
pub mod Reviewed
pub mod Stepping
