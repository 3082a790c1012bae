pub mod Meets
pub mod Altered
pub mod StackLaws
pub mod OneStep
pub mod Demand3
pub mod Callers
pub mod Start
pub mod Examples
