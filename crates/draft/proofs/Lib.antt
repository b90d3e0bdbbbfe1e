pub mod Steps
pub mod Reading
pub mod Writing
pub mod Drafts
