pub mod AnswerLaws
mod LineLaws
pub mod RoomLaws
pub mod RunLaws
pub mod WalkLaws
