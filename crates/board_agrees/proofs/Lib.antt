pub mod Gather
pub mod Steady
pub mod Own
pub mod Table
pub mod Walks
