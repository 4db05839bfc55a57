pub mod Points
pub mod Steps
pub mod Idioms
pub mod Accesses
pub mod Unused
pub mod Hidden
pub mod Seen
pub mod Law
