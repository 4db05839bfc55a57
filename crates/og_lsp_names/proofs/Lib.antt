mod Naming
pub mod Pushed
