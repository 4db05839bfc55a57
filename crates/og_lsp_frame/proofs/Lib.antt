pub mod Lines
pub mod Inputs
pub mod Steps
pub mod Within
pub mod Fronts
pub mod Written
