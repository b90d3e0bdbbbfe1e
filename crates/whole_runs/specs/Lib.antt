pub mod Text
pub mod Rows
pub mod Classes
pub mod Promise
pub mod StopNames
pub mod OldTable
