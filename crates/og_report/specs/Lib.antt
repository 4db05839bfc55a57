pub mod Json
pub mod Refusal
pub mod Report
