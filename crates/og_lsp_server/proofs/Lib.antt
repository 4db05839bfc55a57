pub mod Bodies
pub mod Calling
pub mod Kept
pub mod NoMethod
pub mod Notices
pub mod Replying
mod Told
