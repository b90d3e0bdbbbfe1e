pub mod Bytes
pub mod Told
pub mod Enough
pub mod Laws
