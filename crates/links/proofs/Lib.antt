pub mod PairLaws
pub mod ExtraStageLaws
pub mod LinkLaws
pub mod BesideLaws
pub mod SourceLaws
pub mod LinkingLaws
pub mod WalkLaws
