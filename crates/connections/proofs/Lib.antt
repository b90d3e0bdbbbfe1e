pub mod Words
pub mod Stages
pub mod Along
pub mod Parts
pub mod Asked
pub mod Accepts
pub mod Walks
pub mod Examples
