pub mod Exported
pub mod Slack
pub mod DaySets
pub mod StopNames
pub mod Between
pub mod Contracts
pub mod Isolation
