pub mod Writer
pub mod Runs
pub mod Numbers
