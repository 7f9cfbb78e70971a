pub mod AnswerLaws
pub mod CallsLaws
pub mod Keeping
