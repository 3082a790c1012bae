pub mod LeftLaws
pub mod RoomLaws
pub mod StandingLaws
