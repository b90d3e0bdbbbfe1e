pub mod Held
pub mod Words
pub mod Round
pub mod Bytes
pub mod Back
