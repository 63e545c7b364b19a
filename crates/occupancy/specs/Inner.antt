pub mod Occupancy
pub mod Places
