pub mod Board
pub mod Question
pub mod Walks
