pub mod Whole
pub mod Answers
pub mod Examples
