pub mod Charts
pub mod Cuts
pub mod Marking
pub mod Steps
pub mod Targeting
