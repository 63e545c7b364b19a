pub mod Input
pub mod Messages
pub mod Lines
pub mod Output
pub mod Inner
