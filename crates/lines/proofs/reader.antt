pub mod Count
pub mod Skipping
