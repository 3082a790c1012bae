pub mod ReadLaws
pub mod LayLaws
pub mod LaidLaws
pub mod OverlayLaws
pub mod ApartLaws
pub mod BytesLaws
pub mod WrittenLaws
