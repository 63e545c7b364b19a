pub mod Openings
pub mod Settled
pub mod Crossed
