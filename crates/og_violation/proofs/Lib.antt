pub mod Activity
pub mod Runs
pub mod Firsts
pub mod Refuting
