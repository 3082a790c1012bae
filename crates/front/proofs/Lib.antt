pub mod FrontLaws
pub mod WalkLaws
pub mod SpacedLaws
mod SpokenLaws
pub mod LineTells
pub mod TextTells
