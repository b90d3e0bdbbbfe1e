pub mod DaySets
pub mod Algebra
