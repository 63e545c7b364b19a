pub mod OpeningLaws
pub mod StillLaws
pub mod CrossLaws
pub mod RestingLaws
