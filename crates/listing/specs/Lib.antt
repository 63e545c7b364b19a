pub mod Text
pub mod Complaints
