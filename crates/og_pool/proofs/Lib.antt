pub mod Zips
pub mod Faults
pub mod Slots
pub mod Steps
pub mod TaskAnswers
pub mod Statuses
pub mod Serving
