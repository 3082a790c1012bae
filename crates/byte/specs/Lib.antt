pub mod Arithmetic
pub mod Shift
pub mod Flags
