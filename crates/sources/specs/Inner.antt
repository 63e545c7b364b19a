pub mod Slots
pub mod Wires
pub mod Steps
pub mod Acting
