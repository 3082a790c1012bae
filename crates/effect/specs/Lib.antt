pub mod Effects
pub mod Numbers
