pub mod Left
pub mod Parts
pub mod Calls
pub mod Services
