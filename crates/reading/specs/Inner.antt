pub mod Maps
pub mod Reading
pub mod Services
