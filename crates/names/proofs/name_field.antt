pub mod Names
pub mod Fields
