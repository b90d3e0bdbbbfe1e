pub mod Parts
pub mod Record
