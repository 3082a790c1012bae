pub mod Listing
pub mod Numbers
