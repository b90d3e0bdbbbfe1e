pub mod Rows
pub mod Usual
