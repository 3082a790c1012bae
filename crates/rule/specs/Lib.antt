pub mod Verdict
pub mod Rule
