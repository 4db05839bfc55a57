pub mod Made
pub mod Read
