pub mod Answering
pub mod Promised
pub mod Refusing
pub mod Unfinished
