pub mod Filing
pub mod Findings
pub mod Texts
pub mod Written
