pub mod Readable
pub mod Actions
pub mod Usable
pub mod Rests
pub mod Moments
pub mod Stuck
pub mod Keys
pub mod Active
