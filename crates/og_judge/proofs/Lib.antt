pub mod Listing
pub mod Migrating
pub mod Refusing
pub mod Answering
