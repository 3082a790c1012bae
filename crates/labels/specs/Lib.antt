pub mod Pass
pub mod Numbers
pub mod Verdict
pub mod Inside
