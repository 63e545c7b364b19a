pub mod Windows
pub mod Edges
