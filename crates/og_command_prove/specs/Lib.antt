pub mod Advice
pub mod Answer
pub mod Concluded
pub mod Found
pub mod Moments
pub mod Printed
pub mod Reply
pub mod Table
