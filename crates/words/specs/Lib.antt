pub mod Tests
pub mod Words
pub mod Numbers
pub mod Inner
