pub mod Errors
pub mod Expanded
pub mod Faults
pub mod Meaning
pub mod Printing
pub mod Words
