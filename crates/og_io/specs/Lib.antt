pub mod Joined
pub mod Numbers
pub mod Reading
pub mod Written
