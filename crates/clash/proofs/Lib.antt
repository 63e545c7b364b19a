pub mod RunLaws
pub mod ShareLaws
pub mod WireLaws
pub mod EntryLaws
pub mod RoomLaws
