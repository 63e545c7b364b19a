pub mod View
pub mod Cycle
pub mod Registers
pub mod Seen
pub mod Inbound
pub mod OneMachine
pub mod Inner
