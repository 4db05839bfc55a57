pub mod Faults
pub mod Along
pub mod Ending
pub mod Meanings
pub mod Meant
pub mod Refusals
pub mod Status
pub mod Words
