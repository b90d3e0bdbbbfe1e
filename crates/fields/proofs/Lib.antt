pub mod Bounds
pub mod Cases
pub mod Examples
pub mod Laws
