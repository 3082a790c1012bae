pub mod Trace
pub mod Output
