pub mod Filed
pub mod Gathered
pub mod Served
pub mod Texts
