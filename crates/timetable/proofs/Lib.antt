pub mod Lines
pub mod Calls
pub mod Offences
pub mod Records
pub mod Rows
pub mod Order
pub mod Stages
pub mod Numbered
