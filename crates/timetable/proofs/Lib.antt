pub mod TimetableLaws
pub mod EdgeLaws
pub mod WalkLaws
pub mod HoursLaws
pub mod Examples
