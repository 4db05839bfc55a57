pub mod Ends
pub mod Methods
pub mod Output
pub mod Published
pub mod Replies
pub mod Said
pub mod Texts
