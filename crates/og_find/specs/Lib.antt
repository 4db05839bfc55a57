pub mod Found
pub mod Missing
