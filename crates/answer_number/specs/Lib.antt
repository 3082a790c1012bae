pub mod Numbered
pub mod Texted
