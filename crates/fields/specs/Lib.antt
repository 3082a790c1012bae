pub mod Read
pub mod Lay
pub mod Overlay
pub mod Written
pub mod Apart
pub mod Bytes
