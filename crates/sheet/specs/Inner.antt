pub mod Frame
pub mod Passed
pub mod Served
