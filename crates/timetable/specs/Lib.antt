pub mod Timetable
pub mod Inner
