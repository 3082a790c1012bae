pub mod Four
pub mod Record
pub mod Held
pub mod Accepted
