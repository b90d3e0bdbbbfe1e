pub mod Quick
pub mod Inner
