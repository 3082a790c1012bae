pub mod Product
pub mod Below
pub mod FlagLaws
pub mod Inverse
pub mod Rotated
