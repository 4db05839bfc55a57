pub mod OneByOne
pub mod Actions
pub mod Runs
pub mod Promises
pub mod Shape
pub mod Projected
pub mod Trees
pub mod Reflexive
