pub mod Machine
pub mod Step
pub mod Run
pub mod Load
pub mod Transfer
pub mod Numbers
pub mod Turns
