pub mod AnswerLaws
pub mod NumberLaws
