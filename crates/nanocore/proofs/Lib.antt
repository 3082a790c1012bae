pub mod TurnLaws
pub mod RunLaws
