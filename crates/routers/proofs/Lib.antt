pub mod PlaceLaws
pub mod UnheldLaws
pub mod InputLaws
pub mod OrderLaws
pub mod CrossLaws
pub mod HeadLaws
pub mod OutLaws
