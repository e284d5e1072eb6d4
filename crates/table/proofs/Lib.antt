mod Shifted
mod Splits
mod FlatTasks
mod Unsettled
pub mod Users
pub mod Running
pub mod Chains
mod Bearings
