pub mod Adding
pub mod Programs
