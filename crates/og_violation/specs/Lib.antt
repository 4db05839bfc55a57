pub mod Violations
pub mod Along
pub mod Replays
