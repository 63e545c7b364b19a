pub mod Machine
pub mod Paired
pub mod Stages
pub mod Quiet
pub mod Live
