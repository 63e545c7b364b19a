pub mod GridLaws
pub mod Way
pub mod Simple
pub mod Meet
pub mod Apart
pub mod Slotted
pub mod Ways
pub mod SheetWays
