mod SpellBack
mod RowBack
mod Stretches
mod Placing
mod Lines
pub mod Refusals
pub mod AnyOrder
mod Splices
pub mod RoundTrip
pub mod Callers
pub mod Anywhere
