pub mod WalkLaws
pub mod RegionLaws
pub mod HeaderLaws
pub mod SearchLaws
