pub mod Lines
pub mod Services
pub mod Answers
pub mod Examples
