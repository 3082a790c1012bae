pub mod Event
pub mod Stack
pub mod Demand3
pub mod Callers
pub mod Examples
