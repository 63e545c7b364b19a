pub mod Sheet
pub mod Wires
pub mod Slots
pub mod Flight
pub mod Rules
pub mod Inner
