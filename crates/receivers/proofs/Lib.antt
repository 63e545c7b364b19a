pub mod StrayLaws
pub mod UnitLaws
pub mod ClearLaws
pub mod NodeLaws
pub mod ClearedLaws
pub mod RoundLaws
pub mod ClockLaws
