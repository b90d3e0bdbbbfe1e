pub mod BitField
pub mod Inner
