pub mod OutLaws
