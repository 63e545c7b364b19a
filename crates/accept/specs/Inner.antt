pub mod Arranged
pub mod Working
pub mod Placing
