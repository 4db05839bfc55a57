pub mod Diagnosed
pub mod Refusals
pub mod Renames
pub mod Texts
pub mod Values
