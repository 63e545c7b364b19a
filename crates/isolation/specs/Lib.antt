pub mod Sessions
pub mod Calendar
pub mod Reckoning
pub mod Demand
pub mod Examples
