pub mod Digit
pub mod Unhex
