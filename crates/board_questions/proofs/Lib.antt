pub mod Needs
pub mod Agrees
