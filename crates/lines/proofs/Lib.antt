pub mod Pieces
pub mod Laws
pub mod Counts
pub mod Parts
pub mod Examples
