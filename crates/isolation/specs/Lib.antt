pub mod Alike
pub mod Edit
pub mod Rename
pub mod Boats
