pub mod VerdictLaws
mod MarkLaws
