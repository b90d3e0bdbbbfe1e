pub mod Past
pub mod Skips
