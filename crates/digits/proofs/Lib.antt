pub mod UnhexLaws
pub mod Inside
pub mod DigitLaws
