pub mod Delays
pub mod Paths
pub mod Grid
