pub mod Operands
pub mod Decode
pub mod Encode
pub mod Plain
pub mod Numbers
