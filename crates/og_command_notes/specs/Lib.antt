pub mod Claims
pub mod Law
pub mod Noted
pub mod Notes
pub mod Remarks
pub mod Seen
pub mod Together
