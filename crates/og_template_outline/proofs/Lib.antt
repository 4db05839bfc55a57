pub mod Errors
pub mod Meanings
pub mod ReadAgain
pub mod Taken
