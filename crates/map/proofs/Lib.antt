pub mod Columns
pub mod Finds
pub mod Puts
pub mod Zeros
pub mod Meaning
