pub mod Laws
pub mod Straight
pub mod Rules
pub mod Examples
pub mod Leftmost
