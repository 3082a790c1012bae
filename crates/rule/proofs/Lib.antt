pub mod VerdictLaws
mod PrintedLaws
