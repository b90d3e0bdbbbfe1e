pub mod Heads
pub mod Passing
pub mod Reaching
pub mod Own
pub mod Again
pub mod Checking
pub mod Sizes
pub mod Services
