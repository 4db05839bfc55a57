pub mod Actions
pub mod Trees
pub mod Prepared
pub mod Subst
pub mod Running
pub mod Large
