pub mod Ready
pub mod Tables
pub mod Moving
