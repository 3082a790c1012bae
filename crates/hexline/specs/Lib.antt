pub mod Spelling
pub mod Sum
pub mod Row
pub mod Line
pub mod Code
