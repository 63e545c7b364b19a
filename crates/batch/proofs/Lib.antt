pub mod BatchLaws
pub mod ListsLaws
pub mod WalkLaws
