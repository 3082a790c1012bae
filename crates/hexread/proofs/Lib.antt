pub mod PlaceLaws
pub mod LineLaws
mod ReadLaws
pub mod AnswerLaws
