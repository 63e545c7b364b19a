pub mod Bound
