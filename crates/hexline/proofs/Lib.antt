mod SumLaws
mod SpellLaws
mod RowLaws
pub mod LineLaws
