pub mod Answers
pub mod Drawing
pub mod TaskAnswers
pub mod Kept
pub mod Names
pub mod Status
pub mod Numbered
