pub mod TestLaws
pub mod AllLaws
pub mod WordLaws
pub mod TableLaws
pub mod Below
pub mod NumberLaws
pub mod RangeLaws
