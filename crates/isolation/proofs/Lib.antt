pub mod Routes
pub mod Flights
pub mod Reckoning
pub mod DemandProved
pub mod Examples
