pub mod AnswerLaws
pub mod RoomLaws
mod WalkLaws
