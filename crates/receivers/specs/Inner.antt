pub mod Required
pub mod Written
