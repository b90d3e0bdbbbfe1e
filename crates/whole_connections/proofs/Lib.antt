pub mod Course
pub mod Own
pub mod Left
