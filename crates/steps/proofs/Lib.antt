pub mod Outcome
pub mod Trace
pub mod StepLaws
pub mod NumberLaws
pub mod OutputLaws
pub mod HighLaws
pub mod Reached
