pub mod LineLaws
pub mod NumberLaws
pub mod DecimalLaws
pub mod ReadBack
pub mod PieceLaws
pub mod WordLaws
