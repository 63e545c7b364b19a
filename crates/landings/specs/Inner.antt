pub mod Pages
pub mod Ended
