pub mod Needs
pub mod Numbered
