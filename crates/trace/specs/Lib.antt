pub mod State
pub mod Look
pub mod Seen
