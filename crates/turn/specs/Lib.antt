pub mod Meaning
pub mod Turn
