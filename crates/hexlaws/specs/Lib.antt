pub mod Back
pub mod Order
pub mod Meaning
