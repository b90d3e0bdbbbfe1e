pub mod Stretches
pub mod Drafts
pub mod Size
pub mod Legs
pub mod Order
