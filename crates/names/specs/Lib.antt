pub mod Grammar
pub mod Names
pub mod Inner
pub mod NameField
