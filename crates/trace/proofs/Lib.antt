pub mod LineLaws
pub mod LookLaws
pub mod NumberLaws
mod LookCases
