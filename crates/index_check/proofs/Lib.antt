pub mod Sections
pub mod Places
pub mod Whole
pub mod Own
