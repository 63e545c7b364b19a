pub mod JoinLaws
pub mod CarryLaws
pub mod QuietStep
