pub mod Check
pub mod Numbers
