pub mod Index
pub mod Passes
