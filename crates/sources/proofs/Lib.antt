pub mod BeginLaws
pub mod SourceLaws
pub mod ActingLaws
pub mod SentLaws
pub mod CrowdLaws
pub mod WireLaws
pub mod SenderLaws
