pub mod BitLaws
pub mod WindowLaws
pub mod TakeLaws
pub mod MaskLaws
pub mod WalkLaws
