pub mod Front
pub mod Line
pub mod Walk
pub mod Listed
pub mod Tells
