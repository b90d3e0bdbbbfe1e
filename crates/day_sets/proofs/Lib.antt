pub mod Fields
pub mod Loops
pub mod Asked
pub mod Algebra
pub mod Examples
