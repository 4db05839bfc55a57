pub mod Findings
pub mod Json
pub mod Table
pub mod Texts
pub mod Totals
