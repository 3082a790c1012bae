pub mod Found
pub mod Line
pub mod Standing
pub mod Left
