pub mod Delivered
pub mod Helper
