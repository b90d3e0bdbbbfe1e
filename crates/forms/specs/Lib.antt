pub mod Form
pub mod Columns
pub mod Inner
pub mod Kinds
pub mod Leftmost
