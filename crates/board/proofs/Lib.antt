pub mod Among
pub mod Ascending
pub mod Meaning
pub mod Complete
pub mod Examples
pub mod Walks
