pub mod Table
pub mod Files
pub mod Helper
pub mod Answers
