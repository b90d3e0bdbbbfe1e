pub mod Interval
pub mod Given
pub mod Needs
pub mod Quiet
pub mod Plain
pub mod Goes
