pub mod Ranges
pub mod Rows
pub mod Examples
pub mod Turn
