pub mod Trial
pub mod Rows
pub mod Names
pub mod Classes
pub mod Edges
pub mod Places
pub mod Loads
