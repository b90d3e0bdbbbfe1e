pub mod Lines
pub mod Marks
pub mod Once
pub mod Check
pub mod Slots
