pub mod RecordLaws
pub mod Crossing
