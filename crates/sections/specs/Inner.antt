pub mod SectionMap
pub mod Sections
