pub mod Words
pub mod Texts
pub mod Schedules
pub mod Asked
pub mod Lines
pub mod Running
pub mod Scheduled
pub mod Starts
