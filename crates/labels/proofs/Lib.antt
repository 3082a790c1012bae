pub mod PassLaws
pub mod NumberLaws
pub mod InsideLaws
pub mod VerdictLaws
