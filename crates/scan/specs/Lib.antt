pub mod Class
pub mod Scan
