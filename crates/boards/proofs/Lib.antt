pub mod Bounds
pub mod Needs
