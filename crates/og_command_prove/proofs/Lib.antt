pub mod Columns
pub mod Concluded
pub mod Lists
pub mod Refusals
pub mod Reaches
pub mod Tables
pub mod Texts
pub mod Warranted
