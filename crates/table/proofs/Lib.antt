pub mod Says
pub mod Laws
pub mod Records
pub mod JustTable
pub mod Examples
