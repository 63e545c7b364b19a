pub mod FaultLaws
pub mod PrepareLaws
