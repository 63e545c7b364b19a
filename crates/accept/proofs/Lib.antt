pub mod ArrangedLaws
pub mod WorkingLaws
pub mod SpanLaws
pub mod WalkLaws
pub mod ScheduleLaws
