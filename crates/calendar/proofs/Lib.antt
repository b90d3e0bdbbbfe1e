pub mod Laws
pub mod Bounds
pub mod Closed
pub mod Examples
