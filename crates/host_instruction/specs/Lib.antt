pub mod Operands
pub mod Instruction
pub mod Known
