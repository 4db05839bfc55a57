pub mod Print
pub mod Plain
pub mod Again
