pub mod Torus
pub mod Route
pub mod Inner
