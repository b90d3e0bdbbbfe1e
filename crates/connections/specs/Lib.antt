pub mod Connection
pub mod Quick
pub mod Promise
pub mod Inner
