pub mod Laws
pub mod PlainLaws
