pub mod Search
pub mod Sections
pub mod Services
pub mod Dates
