pub mod Extents
pub mod Refusals
pub mod Remarked
pub mod Said
