pub mod Fill
pub mod Sets
pub mod Frame
pub mod Hex
pub mod Pack
pub mod Meaning
pub mod Examples
