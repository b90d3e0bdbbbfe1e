pub mod Chained
pub mod Needs
