pub mod Answered
pub mod Effects
pub mod Floats
pub mod Joins
pub mod Keys
pub mod Lists
pub mod OfBlock
mod Openings
pub mod Puts
pub mod Texts
pub mod Told
